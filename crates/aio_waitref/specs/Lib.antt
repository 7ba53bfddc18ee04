pub mod WaitOutcomes
