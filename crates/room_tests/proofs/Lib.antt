pub mod FlowCounts
