pub mod Surfaces
