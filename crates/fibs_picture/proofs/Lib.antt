-- Why pictures and words tell their boards.
pub mod PictureLemmas
pub mod WordsLemmas
