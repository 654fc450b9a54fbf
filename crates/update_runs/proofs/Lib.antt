mod FirstItems
mod StaysHonest
mod SampleKept
mod Updated
mod Stands
mod Moves
mod Samples
mod Exercises
