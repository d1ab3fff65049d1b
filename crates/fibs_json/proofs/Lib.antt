pub mod EventLemmas
pub mod ObjectLemmas
pub mod TellingLemmas
pub mod ToldLemmas
pub mod PlaceLemmas
pub mod AskedLemmas
pub mod RefusedLemmas
pub mod CountLemmas
