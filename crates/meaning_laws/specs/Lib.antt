pub mod Does
pub mod Interaction
pub mod Links
pub mod Pace
pub mod Fitting
pub mod Units
pub mod Handed
