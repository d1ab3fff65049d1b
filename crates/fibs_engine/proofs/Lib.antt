pub mod EscapeLemmas
pub mod EscapeWindows
pub mod OkLemmas
pub mod ReadLemmas
pub mod StreamLemmas
pub mod WriteLemmas
