-- What is proved of the samples of a radio frame, beside each function's own contract.
pub mod Roomy
pub mod SlotBySlot
pub mod SlotsLaid
pub mod Pairs
pub mod SamplesBack
pub mod SlotsAgain
