-- What a user's lists lose, steps that are made on lists, and the lists of all users.
pub mod Imports
pub mod Lists
pub mod Steps
pub mod Users
