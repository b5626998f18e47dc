mod Merged
mod Blocks
mod Bits
mod Halving
mod Walking
mod Sides
mod Crossing
