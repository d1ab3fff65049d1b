-- That the world of the program goes on standing for the machine's.
pub mod Whole
pub mod Links
pub mod Events
pub mod Losing
pub mod Opening
pub mod Asking
pub mod Sending
pub mod Taking
pub mod Serving
pub mod Crossing
pub mod Hearing
pub mod Delivering
pub mod Stepping
pub mod Running
pub mod Settling
pub mod Beginning
