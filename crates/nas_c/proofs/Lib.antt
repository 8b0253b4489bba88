mod Answered
mod Ways
