pub mod Needs
pub mod Leads
