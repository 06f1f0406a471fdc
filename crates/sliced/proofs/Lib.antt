mod Gathering
mod Substitution
