pub mod Safety
