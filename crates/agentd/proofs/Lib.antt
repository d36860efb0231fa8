mod Premises
mod OneMore
