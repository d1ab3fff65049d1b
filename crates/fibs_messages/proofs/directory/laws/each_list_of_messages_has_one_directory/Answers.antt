use Rattle.fibs_messages.proofs.DirectoryLemmas.One.{each_list_has_a_directory, no_list_has_two_directories}
use Rattle.fibs_messages.proofs.directory.laws.each_list_of_messages_has_one_directory.Goals as goal

pub returns-clause-some : goal.returns-clause-some
returns-clause-some c = each_list_has_a_directory

pub returns-clause-one : goal.returns-clause-one
returns-clause-one c = no_list_has_two_directories
