-- Facts on the bytes of the wires.
pub mod Needles
pub mod BoardTexts
