-- Script: a line of the script is sent.
pub mod Script
pub mod Whole
