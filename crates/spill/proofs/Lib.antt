mod Making
mod Copying
mod LostFlow
mod WantedFlow
mod Loops
mod Choosing
