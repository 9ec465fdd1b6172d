pub mod Decks
pub mod Laying
pub mod Steps
pub mod Dealt
pub mod Shuffling
