pub mod SmallGraph
