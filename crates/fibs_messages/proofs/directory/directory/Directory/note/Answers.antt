use Rattle.std.proofs.Common.{refl, ap, is_ok, true≢false}
use Rattle.fibs_messages.proofs.DirectoryLemmas.Notes.{other_number, noted_who_info, noted_logged_out, noted_rest}
use Rattle.fibs_messages.proofs.directory.directory.Directory.note.Goals as goal

pub returns-in_ok-set-in-WhoInfo-clause-noted : goal.returns-in_ok-set-in-WhoInfo-clause-noted
returns-in_ok-set-in-WhoInfo-clause-noted c =
    noted_who_info c.args.message.now
    c.in-WhoInfo.info c.args.self.now c.set.new.self c.in-WhoInfo.is c.in_ok-set-in-WhoInfo.ensures.set

pub returns-in-Logout-clause-noted : goal.returns-in-Logout-clause-noted
returns-in-Logout-clause-noted c =
    noted_logged_out c.args.message.now
    c.in-Logout.name c.in-Logout.text c.bytes-in-Logout.result.now c.args.self.now c.remove.new.self
    c.in-Logout.is c.bytes-in-Logout.ensures.value c.remove.ensures

pub returns-in_default : goal.returns-in_default
returns-in_default c =
    let other = other_number c.args.message.now c.in_default.not-WhoInfo c.in_default.not-Logout in
    record {
      noted = noted_rest c.args.message.now c.args.self.now c.in_default.not-WhoInfo c.in_default.not-Logout;
      unchanged = tt;
      full = (λ wrong. absurd (true≢false (ap is_ok wrong)), λ h. absurd (other.0 h.0));
      others = λ _. refl;
    }
