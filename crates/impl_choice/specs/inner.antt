pub mod Queued
pub mod FirstKeys
