mod Ordering
