mod PagesCounted
