-- The command by which a user logs in (CLIP 1008), and what is wrong with a name and a password.
use Rattle.std.specs.Prelude.{◌≡◌, ◌++◌, ◌&&◌, ℕ, Bool, true, List, ◌∷◌, Option, None, Some, cond, codes, length, nat_le, nat_lt}
use Rattle.std.specs.List.{list_all}
use Rattle.fibs_fields.specs.Name.{is_name}
use Rattle.fibs_commands.specs.PlainCommands.{first_of, name_fault}
use Rattle.fibs_commands.specs.declared.plain.PlainFault.{PlainFault}
use Rattle.fibs_commands.specs.declared.plain.PlainFault.TheVariants.{BadText, TooLong}

-- a printable byte of ASCII
abbrev pub is_password_byte : ℕ → Bool
is_password_byte byte = nat_le 33 byte && nat_le byte 126

-- a password has 1 to 64 such bytes
abbrev pub is_password : List ℕ → Bool
is_password text = nat_le (length text) 64 && (nat_lt 0 (length text) && list_all is_password_byte text)

-- what is wrong with a password: it has more than 64 bytes, or it is empty or has another byte
abbrev pub password_fault : List ℕ → Option PlainFault
password_fault text =
    cond (nat_le (length text) 64)
    (cond (nat_lt 0 (length text) && list_all is_password_byte text) None (Some BadText))
    (Some TooLong)

-- what is wrong with a name and a password: a fault of the name comes first
unfoldable pub login_fault : List ℕ → List ℕ → Option PlainFault
login_fault name password = first_of (name_fault name) (password_fault password)

-- a name and a password by which a user can log in
pub record IsLogin (name password : List ℕ) : Type 0 where
  pub is_user : is_name name ≡ true
  pub is_secret : is_password password ≡ true

-- the command, without its line end: the client's name, the version of CLIP, the user's name and the password
unfoldable pub login_text : List ℕ → List ℕ → List ℕ
login_text name password = codes "login fibs_client 1008 " ++ (name ++ 32 ∷ password)
