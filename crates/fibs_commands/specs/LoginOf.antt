-- Logins of the program as values.
use Rattle.std.specs.Prelude.{ℕ, List}
use Rattle.fibs_commands.specs.Logins.{login_text}
use Rattle.fibs_commands.specs.declared.login.Login.{Login}

-- the user's name
abbrev pub name_of : Login → List ℕ
name_of login = login.name.bytes

-- the user's password
abbrev pub password_of : Login → List ℕ
password_of login = login.password.bytes

-- the command of the login
abbrev pub login_of : Login → List ℕ
login_of login = login_text (name_of login) (password_of login)
