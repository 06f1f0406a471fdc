mod Folding
mod Held
mod Mapped
mod Moving
