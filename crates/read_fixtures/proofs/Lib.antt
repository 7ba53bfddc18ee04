mod WholeReads
