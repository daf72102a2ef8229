pub mod Lent
pub mod Mark
pub mod Room
pub mod Lending
pub mod Count
pub mod Tally
pub mod Cases
