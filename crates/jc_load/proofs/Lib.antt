pub mod Upwards
