pub mod NoFlaw
