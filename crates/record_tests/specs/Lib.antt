pub mod PendingReads
