mod CutAway
