mod Grouped
mod Spreads
mod Levels
mod Searches
mod Firsts
mod Least
