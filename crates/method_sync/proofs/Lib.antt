pub mod RunnerExecutes
