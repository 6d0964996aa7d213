pub mod Evictables
