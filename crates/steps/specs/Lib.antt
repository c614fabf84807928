pub mod Supply
pub mod Cut
pub mod Combine
pub mod Heal
pub mod Change
pub mod Cases
