-- Why the definitions of fields and the code agree.
pub mod FieldLemmas
pub mod NumberLemmas
-- Why the definitions of boards and the code agree.
pub mod BoardLemmas
