pub mod TightFlows
