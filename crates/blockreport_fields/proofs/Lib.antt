pub mod Room
pub mod Bodies
pub mod AddendIsAddition
