pub mod Driving
