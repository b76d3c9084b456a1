pub mod OneTarget
