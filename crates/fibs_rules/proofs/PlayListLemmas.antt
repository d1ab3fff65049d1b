-- The list of plays.
pub mod VisitLoop
pub mod PlayOrder
pub mod PlayNumbers
pub mod Reaches
pub mod FallingPlays
pub mod AllTried
pub mod BothOrders
pub mod KeptPlays
pub mod NotedMap
pub mod ListedPlays
