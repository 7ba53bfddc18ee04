mod PendingReads
