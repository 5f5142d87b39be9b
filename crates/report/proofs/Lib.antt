mod Breaks
