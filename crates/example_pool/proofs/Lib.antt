pub mod ValidByHeader
