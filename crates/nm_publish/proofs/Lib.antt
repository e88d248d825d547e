pub mod Fronts
pub mod Adding
pub mod Seats
pub mod Belonging
pub mod Reading
pub mod Committing
pub mod Beginning
pub mod Crossing
