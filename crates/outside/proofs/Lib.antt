mod Fronts
mod Outcomes
mod Places
mod Sinks
