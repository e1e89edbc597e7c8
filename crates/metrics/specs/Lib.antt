pub mod Histograms
pub mod Metrics
