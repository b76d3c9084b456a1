pub mod SmallInputs
