mod Arrival
mod Begins
mod Drains
mod Gathered
mod Keeps
mod Lists
mod OfBoard
mod Places
