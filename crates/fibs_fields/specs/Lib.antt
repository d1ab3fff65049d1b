-- What a caller reads: a field of a line, what it may be, how it is spelled, and what is wrong with other texts.
pub mod Split
pub mod Spaces
pub mod Decimal
pub mod Name
pub mod Word
pub mod Rating
pub mod Faults
pub mod Field
pub mod Hex
-- The values of the program as these, whose own facts are in the files above.
pub mod Bytes
-- What only private functions and proofs say; on the reading of fields rests `reading_value` of fibs_messages too.
pub mod DecimalReading
pub mod FieldReading
pub mod Runs
-- What a caller reads: boards, their lines, and what each field may be.
pub mod Board
pub mod FieldRanges
pub mod Printed
-- The boards of the program as these.
pub mod StoredBoard
pub mod StoredNumbers
pub mod StoredParts
-- What only private functions and proofs say; on the reading of boards rests `reading_value` of fibs_messages too.
pub mod BoardProp
pub mod BoardReading
pub mod Numerals
pub mod StoredBytes
