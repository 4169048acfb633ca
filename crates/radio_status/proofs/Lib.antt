-- What is proved of the status record and its words, beside each function's own contract.
pub mod Carries
pub mod HeaderCases
pub mod TwelveBits
pub mod WordsBack
pub mod WordsAgain
