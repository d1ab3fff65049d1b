-- What the server's texts say of invitations and of saved matches, matches that have ended, and how rows are broken.
pub mod Broken
pub mod Endings
pub mod Greetings
pub mod Invitations
pub mod MatchRows
pub mod Matches
pub mod Rated
pub mod Rematch
pub mod SavedLists
pub mod SavedMatches
pub mod ServerWords
pub mod SettingWords
pub mod Shown
