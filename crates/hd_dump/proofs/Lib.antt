mod Agreement
mod Counting
mod Dumping
mod Lists
