pub mod Elements
mod Simulation
pub mod Arena
mod Pushed
mod Names
mod Parts
mod Operations
mod Catches
pub mod Shapes
mod Leavings
mod Nodes
mod Agreeing
