-- The laws of the word that is due, and of each word through its bytes and back, by subject.
pub mod Saying
pub mod Sendable
pub mod BitTrip
pub mod WordTrip
pub mod Assigned
pub mod ByteTrip
