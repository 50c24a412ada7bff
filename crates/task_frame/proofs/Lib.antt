pub mod Evaluating
pub mod Laying
pub mod Gathering
